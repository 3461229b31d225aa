-- One own box and the wires into it: what the box starts from and what is wrong there, where the wires begin, and what each gives.
pub mod OwnBox
pub mod Wires
