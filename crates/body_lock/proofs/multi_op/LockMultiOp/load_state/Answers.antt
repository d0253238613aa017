use Rattle.body_lock.specs.stages.LockingAll.{takes_at}
use Rattle.pass_table.specs.Turning.{LoadsNow}
use Rattle.std.proofs.Common.{length, inl, ◌∙◌, ap, arith, sym, subst}
use Rattle.pass_table.specs.Passes.{view_of}
use Rattle.body_lock.specs.declared.multi_op.Wanted.{Wanted}
use Rattle.body_lock.proofs.ReadingAll.{next-may, read-less, read-keeps, read-locked}
use Rattle.body_lock.proofs.multi_op.LockMultiOp.load_state.Goals as goal

pub read_entry-body-requires-clause-may : goal.read_entry-body-requires-clause-may
read_entry-body-requires-clause-may c =
    let under_way = c.requires.under_way in
    next-may c.args.self.now (view_of c.args.pass.now) c.requires.stage under_way.first under_way.start under_way.goes

pub returns-then-len-clause-turn : goal.returns-then-len-clause-turn
returns-then-len-clause-turn c =
    let past : Wanted = record { id = c.read_entry-body.result.id } in
    let less = c.if-len.true in
    let one = c.len.ensures.value in
    let two = c.len-2.ensures.value in
    record {
      step = c.read_entry-body.ensures.step;
      made = c.read_entry-body.ensures.made;
      turned = inl (read-less c.args.self.now c.push.new.self.items c.requires.stage c.read_entry-body.result c.push.ensures.items (omega arith));
      loads = subst (LoadsNow (view_of c.args.pass.now) (view_of c.read_entry-body.new.pass)) (sym (ap takes_at c.requires.stage)) tt;
      keeps = λ first start locking.
          read-keeps c.args.self.now (view_of c.args.pass.now) c.requires.stage first start locking (view_of c.read_entry-body.new.pass) c.read_entry-body.result past (c.read_entry-body.ensures.reads past)
          c.push.new.self c.push.ensures.items (omega arith);
      answered = λ first start locking. tt;
    }

pub returns-clause-turn : goal.returns-clause-turn
returns-clause-turn c =
    let past : Wanted = record { id = c.read_entry-body.result.id } in
    let less = c.if-len.false in
    let one = c.len.ensures.value in
    let two = c.len-2.ensures.value in
    let same = c.replace.ensures.value in
    record {
      step = c.read_entry-body.ensures.step;
      made = c.read_entry-body.ensures.made;
      turned = tt;
      loads = tt;
      keeps = λ first start locking. tt;
      answered = λ first start locking.
          read-locked c.args.self.now (view_of c.args.pass.now) c.requires.stage first start locking (view_of c.read_entry-body.new.pass) c.read_entry-body.result past
          (c.read_entry-body.ensures.reads past) c.replace.result c.number.result (ap (λ v. v.items) same ∙ c.push.ensures.items) (let lengths = ap (λ v. length v.items) same in omega arith)
          c.number.ensures;
    }
