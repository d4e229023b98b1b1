mod Accounts
mod Fields
mod HandedOut
mod LineCuts
mod LinesTaken
mod Results
mod Verdicts
mod Whole
