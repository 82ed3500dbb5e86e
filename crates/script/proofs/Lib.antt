mod Cuts
mod Feeding
mod Fields
