-- Where the code finds a cost: no promise about files cites it.
pub mod Scan
