mod Alone
mod Closable
