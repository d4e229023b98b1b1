mod Words
mod Outs
mod Idling
mod Seen
mod Running
mod AnswerKinds
