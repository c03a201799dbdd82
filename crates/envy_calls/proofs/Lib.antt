mod Numbers
mod Several
mod Versions
