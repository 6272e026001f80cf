pub mod Holding
mod SharedLines
