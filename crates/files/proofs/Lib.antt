mod Chunks
mod ByByte
mod Parts
mod Marks
