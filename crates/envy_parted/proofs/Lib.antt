mod Boards
mod Declining
mod Filling
mod Numbers
