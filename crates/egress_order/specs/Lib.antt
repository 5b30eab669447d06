pub mod OwnPackets
