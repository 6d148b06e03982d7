mod Distances
mod Moved
mod TwoBits
mod Pages
