pub mod RoundTrip
pub mod ShiftedBytes
pub mod Successes
