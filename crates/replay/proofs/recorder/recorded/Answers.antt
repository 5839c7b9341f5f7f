use Rattle.std.proofs.Common.{◌++◌, length, drop, ap, ◌∙◌}
use Rattle.trace.specs.Records.{joined, postfix}
use Rattle.replay.specs.declared.recorder.Recorder.{Recorder}
use Rattle.replay.specs.Events.{sent_all}
use Rattle.replay.specs.Recorded.{blank}
use Rattle.replay.proofs.Recording.{at_first}
use Rattle.replay.proofs.Records.{all_records}
use Rattle.replay.proofs.recorder.recorded.Goals as goal

pub returns : goal.returns
returns c =
    let es = c.args.events.now in
    let bs = c.args.bytes.now in
    let made = c.new-recorder.ensures in
    let start = c.new-recorder.result.sink.below in
    let none = ap (λ (r : Recorder). r.sink.below.records) made in
    let left = ap (λ (r : Recorder). r.sink.left) made in
    let bytes = ap (λ (r : Recorder). r.sink.below.bytes.now) made in
    let first = at_first c.new-recorder.result.sink.left start none ∙ (λ i. blank (left i) (bytes i)) in
    let sent = c.send_all-answer.ensures.sent ∙ ap (sent_all postfix es) first in
    let laid = c.finish.ensures.records start none c.send_all-answer.ensures.memory in
    let list = (λ i. joined (sent i).1.list) ∙ all_records es (blank c.args.limit bs) in
    record {
      answer = λ i. (sent i).0;
      bytes = (λ i. (c.finish.ensures.bytes i).now) ∙ laid ∙ (λ i. list i ++ drop (length (list i)) (bytes i));
    }
