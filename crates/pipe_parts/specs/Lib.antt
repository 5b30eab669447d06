pub mod EnvWords
pub mod EntryList
pub mod FreeEnvs
pub mod Keeping
pub mod Packets
pub mod Room
pub mod Slots
pub mod Waiting
