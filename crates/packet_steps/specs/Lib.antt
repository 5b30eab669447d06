pub mod Packet
pub mod Heading
