pub mod Book
pub mod Calls
pub mod Lookup
pub mod Listing
