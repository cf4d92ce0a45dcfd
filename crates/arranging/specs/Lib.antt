pub mod Arrangements
