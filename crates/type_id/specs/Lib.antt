pub mod TypeId
