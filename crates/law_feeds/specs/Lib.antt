pub mod Morning
