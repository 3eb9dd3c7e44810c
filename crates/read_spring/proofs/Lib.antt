pub mod SpringLaws
