pub mod Texts
pub mod Printed
pub mod Quiet
pub mod Ended
pub mod Written
