use Rattle.std.specs.Prelude.{ℕ, List, [], ◌∷◌, ◌++◌}
use Rattle.std.proofs.Common.{refl, sym, ap, subst, ◌∙◌}
use Rattle.std.proofs.lemmas.List.{append-nil}
use Rattle.plain_tree.specs.declared.calls.Answer.{Answer}
use Rattle.waiting_reads.specs.Waiting.{IsFilledOne}
use Rattle.volume_state.specs.StateLaws.Stepping.{IsKeptAfter}
use Rattle.volume_core.proofs.VolumeSteps.ReadLemmas.{is_answered, waits_on}
use Rattle.volume_core.proofs.volume_steps.parts.Parts.take_block.Goals as goal

pub returns-then-waits : goal.returns-then-waits
returns-then-waits g c =
    waits_on c.args.owner c.args.place c.args.got c.args.self.now.head.block _ _ record {
      drive = refl;
      only = record {
        stock = refl;
        on = refl;
        acks = c.write.ensures.acks ∙ append-nil _;
        kept = c.write.ensures.kept ∙ append-nil _;
        listed = record { history = refl; marks = refl; calls = refl; sessions = refl };
        trail = c.head-at.ensures.trail;
        arrived = c.remove.ensures.arrived;
      };
      events = c.write.ensures.events;
      request = record {
        front = c.requires.node.1.front;
        one = c.requires.node.0;
        behind = c.requires.node.1.behind;
        waiting_is = c.requires.node.1.parts;
        owner_is = c.requires.node.3;
        place_is = c.requires.node.4;
      };
      queue = c.remove.ensures.waiting record {
        front = c.requires.node.1.front;
        here = c.requires.node.0;
        behind = c.requires.node.1.behind;
        parts = c.requires.node.1.parts;
        node = c.requires.node.2;
      };
      cached = subst (λ (block : List ℕ). IsKeptAfter c.args.got c.args.place block c.args.self.now.cache c.keep_block.new.cache) c.block-2.ensures c.keep_block.ensures;
    }
    (subst (λ (block : List ℕ). IsFilledOne c.args.owner c.args.place block c.args.self.now.reads.reads c.fill.new.self.reads) c.block.ensures c.fill.ensures.filled) refl c.fill.ensures.answered
    (sym c.waits.ensures ∙ c.if-waits.true)

pub returns : goal.returns
returns g c =
    is_answered c.args.owner c.args.place c.args.got c.args.self.now.head.block c.finish-answer.result c.fill.new.self.reads _ _ record {
      drive = refl;
      only = record {
        stock = refl;
        on = refl;
        acks = c.write.ensures.acks ∙ append-nil _;
        kept = c.write.ensures.kept ∙ append-nil _;
        listed = record { history = c.answer.ensures.history; marks = c.answer.ensures.marks; calls = c.answer.ensures.calls; sessions = c.answer.ensures.sessions };
        trail = c.head-at.ensures.trail;
        arrived = c.remove.ensures.arrived;
      };
      events = c.write.ensures.events;
      request = record {
        front = c.requires.node.1.front;
        one = c.requires.node.0;
        behind = c.requires.node.1.behind;
        waiting_is = c.requires.node.1.parts;
        owner_is = c.requires.node.3;
        place_is = c.requires.node.4;
      };
      queue = c.remove.ensures.waiting record {
        front = c.requires.node.1.front;
        here = c.requires.node.0;
        behind = c.requires.node.1.behind;
        parts = c.requires.node.1.parts;
        node = c.requires.node.2;
      };
      cached = subst (λ (block : List ℕ). IsKeptAfter c.args.got c.args.place block c.args.self.now.cache c.keep_block.new.cache) c.block-2.ensures c.keep_block.ensures;
    }
    (subst (λ (block : List ℕ). IsFilledOne c.args.owner c.args.place block c.args.self.now.reads.reads c.fill.new.self.reads) c.block.ensures c.fill.ensures.filled)
    c.finish-answer.ensures.finished c.answer.ensures.replies (c.finish-answer.ensures.answered ∙ ap (λ (kept : List (ℕ × Answer)). kept ++ (c.args.owner, c.finish-answer.result) ∷ []) c.fill.ensures.answered) (sym c.waits.ensures ∙ c.if-waits.false)
