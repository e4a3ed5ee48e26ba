use Rattle.volume_core.proofs.volume_steps.requests.forget_requests.Given as goal

abbrev pub ghosts-forget_counted : goal.ghosts-forget_counted
ghosts-forget_counted a = record { name = a.blank.name; parts = a.blank.parts }
