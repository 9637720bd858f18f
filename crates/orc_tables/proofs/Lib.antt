mod Benching
mod HoldingLaws
