-- Definitions on lists, tests and places, over any element, width and index. The laws about them are in proofs/, under the same names.
pub mod Test
pub mod All
pub mod Filter
pub mod Answer
pub mod Sorted
pub mod Union
pub mod First
pub mod Rising
pub mod Stride
pub mod Rows
pub mod Bytes
pub mod Laid
pub mod Gather
pub mod Best
