-- `answer` refuses in order, or walks the trace and tells the state. Assumes nothing.
use Rattle.ask_trace.proofs.Asked.{refused_answer, refused_state, walked_answer, walked_state, enough_room}
use mathlib.Core.List.{[]}
use Rattle.ask_trace.proofs.answer.Goals as goal

pub returns-then-f-ne0 : goal.returns-then-f-ne0
returns-then-f-ne0 c =
    record {
      handed = refused_answer c.args.o _ _ [] [] [] _ c.args.trace.now c.args.state.now _ c.refusal-f.ensures _
          c.with_number-counted.ensures c.if-f-ne0.true _
          c.nothing.ensures;
      left = refused_state c.args.o _ _ _ _ _ _ c.args.trace.now c.args.state.now _ c.refusal-f.ensures _
          c.with_number-counted.ensures
          c.if-f-ne0.true;
    }

pub tell-requires : goal.tell-requires
tell-requires c =
    enough_room c.args.o [] [] [] [] [] [] c.args.trace.now c.args.state.now _ c.refusal-f.ensures _
    c.with_number-counted.ensures
    c.if-f-ne0.false

pub returns : goal.returns
returns c =
    record {
      handed = walked_answer c.args.o _ _ [] [] [] _ c.args.trace.now c.args.state.now _ c.refusal-f.ensures _
          c.with_number-counted.ensures c.if-f-ne0.false _
          c.walk-traced.ensures;
      left = walked_state c.args.o _ _ _ _ _ _ c.args.trace.now c.args.state.now _ c.refusal-f.ensures _
          c.with_number-counted.ensures
          c.if-f-ne0.false _
          c.walk-traced.ensures _ c.tell.ensures;
    }
