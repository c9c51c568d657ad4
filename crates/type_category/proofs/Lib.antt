-- Laws that the functions' proofs cite. Steps: what each return answers. Categories: what a category tells; Numbers: what its numbers tell. Both for the crates above.
mod Steps
pub mod Categories
pub mod Numbers
