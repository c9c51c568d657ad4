pub mod Ascii16
