pub mod Pipe
pub mod Laws
pub mod Events
pub mod Offers
pub mod Entering
