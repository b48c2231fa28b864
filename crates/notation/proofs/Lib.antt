mod DateText
mod Days
mod Digits
