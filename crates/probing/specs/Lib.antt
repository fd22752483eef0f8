pub mod Slots
pub mod Probing
pub mod SlotLaws
