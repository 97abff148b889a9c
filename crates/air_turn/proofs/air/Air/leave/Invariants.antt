use Rattle.air_turn.proofs.air.Air.leave.Given as goal

-- The journal of the state that is put back.
abbrev pub ghosts-raise : goal.ghosts-raise
ghosts-raise a = record { journal = a.state.now.journal }
