mod Marks
mod Places
