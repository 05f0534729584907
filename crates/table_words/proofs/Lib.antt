mod Below
mod Letters
mod Moves
