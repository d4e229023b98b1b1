mod Growing
mod Trees
