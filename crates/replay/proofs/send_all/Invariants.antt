use Rattle.std.proofs.Common.{◌≡◌, drop}
use Rattle.replay.specs.Events.{sent_all}
use Rattle.replay.proofs.send_all.Given as goal

-- the events that are left come to the same from here as all of them did from the start
abbrev pub invariant-loop-event : goal.invariant-loop-event
invariant-loop-event g l =
    let k = g.K.Sink in
    let all = sent_all k.algebra l.events (k.meaning l.initial.sink) in
    let rest = sent_all k.algebra (drop l.event-index l.events) (k.meaning l.sink) in
    (rest ≡ all) × k.grows l.initial.sink l.sink
