pub mod Packets
pub mod PacketView
