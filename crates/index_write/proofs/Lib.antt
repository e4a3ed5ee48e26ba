mod Assembled
mod AttributeLemmas
mod SizeLemmas
mod Symbols
mod Zipper
