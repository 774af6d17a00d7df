mod Served
mod Written
