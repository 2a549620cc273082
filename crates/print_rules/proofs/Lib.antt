pub mod PrintTurns
