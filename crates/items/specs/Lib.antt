-- What the contracts of `items` cite: the items' lookup, and a scan that skips places; and a bound.
pub mod Lookup
pub mod Ranges
pub mod Bounds
