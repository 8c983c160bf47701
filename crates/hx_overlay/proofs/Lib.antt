mod ByteByByte
mod ChangedBy
mod PartRead
mod Passing
