pub mod Firsts
pub mod Laws
