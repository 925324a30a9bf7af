mod Steps
mod Pushes
mod Visits
mod Answered
