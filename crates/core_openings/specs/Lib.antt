pub mod KeptSo
