mod Looks
mod Begun
