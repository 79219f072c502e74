mod Firsts
mod Keyed
mod Pinned
mod Printed
mod Differing
mod Turns
