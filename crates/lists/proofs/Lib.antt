-- Laws on lists, tests and places. Those of a definition are in the file of its name; Index, Walk and Table are about loops, and Codec about values
-- as bytes and back.
pub mod Test
pub mod All
pub mod Filter
pub mod Answer
pub mod Sorted
pub mod Union
pub mod First
pub mod Rising
pub mod Index
pub mod Walk
pub mod Stride
pub mod Rows
pub mod Table
pub mod Codec
pub mod Laid
pub mod Gather
pub mod Best
