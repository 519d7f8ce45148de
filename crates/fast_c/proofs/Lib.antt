mod Boxes
mod Made
mod Firsts
