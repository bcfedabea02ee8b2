pub mod SlotText
pub mod Text
