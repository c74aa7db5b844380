mod Plains
mod Cutting
mod Reading
mod Limiting
mod Wholes
mod Finding
