mod Turns
mod Plans
mod Lists
