-- What holds of an engine, by the call that was the last.
use Rattle.std.proofs.Common.{◌≡◌, ℕ, ◌+◌, ◌<◌, ◌≤◌, Bool, true, false, Result, Ok, Err, OnErr, length, refl, ap, sym, subst, ◌∙◌, arith}
use Rattle.tp_meaning.specs.Machine.{IsStack}
use Rattle.tp_meaning.specs.Step.{searched}
use Rattle.tp_meaning.proofs.ValidWorlds.Places.{all-weaker}
use Rattle.tp_meaning.proofs.Searching.Stack.{HasStackUpTo, stack_above, rewound-stack}
use Rattle.tp_terms.specs.declared.world.Proc.{Proc}
use Rattle.tp_store.proofs.Standing.Fits.{Fits-store}
use Rattle.tp_parse.specs.declared.read.ReadTerm.{ReadTerm}
use Rattle.tp_clauses.specs.Contents.{Contents}
use Rattle.tp_engine.specs.declared.answers.AnswerFault.{AnswerFault}
use Rattle.tp_engine.specs.declared.answers.AnswerFault.TheVariants as why
use Rattle.tp_machine.specs.declared.machine.Machine.{Machine}
use Rattle.tp_engine.specs.declared.phase.Phase.{Phase}
use Rattle.tp_engine.specs.declared.phase.Phase.TheVariants as phase
use Rattle.tp_machine.specs.declared.stepped.Stepped.{Stepped}
use Rattle.tp_machine.specs.Machine.{IsMachine, IsBack, IsProgram, SameProgram, Rewinds, base_in, open_in, state_in}
use Rattle.tp_engine.specs.Phases.{Keeps, phase_after}
use Rattle.tp_state.specs.Stands.{PlainStands, ProcStands}
use Rattle.tp_state.specs.State.{plain_of}
use Rattle.tp_engine.specs.Told.{MayRewind, IsWhole, IsSound, IsSame, IsCounted, IsUncounted, Told, number_after, seen_of, told_of}
use Rattle.tp_machine.proofs.Grows.Later.{base_stays}

-- what holds holds after an error
pub on_err : {T E P : Type 0} (r : Result T E) → P → OnErr r P
on_err (Ok x) p = tt
on_err (Err e) p = p

-- ---- by the call that was the last

back_program : (m : Machine) → IsBack m → IsProgram m
back_program m h = let p = h.machine.program in record { table = p.table; base = p.base; named = p.named; goal = p.goal }

module _ (m : Machine) (number steps : ℕ) where
  pub kept_program : (ph : Phase) → Keeps ph m number steps → (ph ≡ phase.Broken → ⊥) → IsProgram m
  kept_program phase.New k whole = k.ready.machine.program
  kept_program (phase.Stepped r) k whole = k.machine.program
  kept_program (phase.Rewound true) k whole = back_program m k.back
  kept_program (phase.Rewound false) k whole = k.machine.program
  kept_program phase.Resumed k whole = k.machine.program
  kept_program phase.Ran k whole = k.program
  kept_program phase.Broken k whole = absurd (whole refl)

  pub may_rewind : (ph : Phase) → MayRewind ph → Keeps ph m number steps → IsMachine m
  may_rewind phase.New may k = absurd may
  may_rewind (phase.Stepped r) may k = k.machine
  may_rewind (phase.Rewound found) may k = absurd may
  may_rewind phase.Resumed may k = absurd may
  may_rewind phase.Ran may k = absurd may
  may_rewind phase.Broken may k = absurd may

pub fault_keeps : (fault : AnswerFault) (m : Machine) (number steps : ℕ) → (fault ≡ why.Write → IsMachine m) → Keeps (phase_after fault) m number steps
fault_keeps why.Write m number steps h = h refl
fault_keeps why.NoMemory m number steps h = tt

-- ---- stamps

-- the choices of a machine that went back have stamps up to its own
pub rewound_stack : (m new : Machine) (found : Bool) → IsMachine m → Rewinds m found new → IsStack (searched (base_in new)) (new.stamp + 1) (open_in new)
rewound_stack m new found is r =
    let x = searched (base_in m) in
    let up : HasStackUpTo x (state_in m) = stack_above x m.stamp (m.stamp + 1) (open_in m) (omega arith) is.stack in
    subst (λ b. HasStackUpTo (searched b) (state_in new)) (sym r.meaning) (subst (HasStackUpTo x) (sym (ap (λ z. z.1) r.back)) (rewound-stack x (state_in m) up))

-- ---- what stays

-- an engine over a machine with the same program, by what contracts saw of it before
module _ (t : Told) (old new : Machine) (a b : Phase) (number steps : ℕ) (was : told_of a old number steps ≡ t) (h : IsProgram old) (same : SameProgram old new) where
  pub same_told : (k l : ℕ) → IsSame t (told_of b new k l)
  same_told k l = subst (λ (s : Told). IsSame s (told_of b new k l)) was (record {
    base = base_stays old new h same;
    names = same.names;
    named = ap (λ (g : ReadTerm). g.named) same.goal;
    ops = ap (λ (c : Contents). c.ops) same.base;
  })

  pub uncounted : IsUncounted t (told_of b new number steps)
  uncounted = record {
    same = same_told number steps;
    number = ap (λ (s : Told). s.seen.number) was;
    steps = ap (λ (s : Told). s.seen.steps) was;
  }

  pub counted : (r : Stepped) (n : ℕ) → n ≡ number_after r number → IsCounted r t (told_of b new n (steps + 1))
  counted r n e = record {
    same = same_told n (steps + 1);
    number = e ∙ ap (λ (s : Told). number_after r s.seen.number) was;
    steps = ap (λ (s : Told). s.seen.steps + 1) was;
  }

-- ---- what an engine shows

pub plain_sound : (m : Machine) (number steps : ℕ) → IsProgram m → PlainStands m.atoms (plain_of m.state) → m.goal.now.vars ≤ m.state.store.vars → IsSound (seen_of m number steps)
plain_sound m number steps h s le = record {
  table = h.table;
  store = s.store;
  fits = Fits-store m.state.store s.store;
  atoms = s.atoms;
  procs = all-weaker (ProcStands (length m.atoms) (length m.state.frames)) (λ (q : Proc). q.name.at < length m.atoms) (λ q k. k.name) m.state.procs s.procs;
  events = s.events;
  named = λ k d lt. let b = h.goal.named k d lt in omega (arith, b, le);
}

pub machine_sound : (m : Machine) (number steps : ℕ) → IsMachine m → IsSound (seen_of m number steps)
machine_sound m number steps h = plain_sound m number steps h.program h.stands h.worlds.world.vars

back_sound : (m : Machine) (number steps : ℕ) → IsBack m → IsSound (seen_of m number steps)
back_sound m number steps h = plain_sound m number steps (back_program m h) h.machine.stands h.machine.worlds.world.vars

pub keeps_sound : (m : Machine) (number steps : ℕ) (ph : Phase) → Keeps ph m number steps → IsWhole ph → IsSound (seen_of m number steps)
keeps_sound m number steps phase.New k w = machine_sound m number steps k.ready.machine
keeps_sound m number steps (phase.Stepped r) k w = machine_sound m number steps k.machine
keeps_sound m number steps (phase.Rewound true) k w = back_sound m number steps k.back
keeps_sound m number steps (phase.Rewound false) k w = machine_sound m number steps k.machine
keeps_sound m number steps phase.Resumed k w = machine_sound m number steps k.machine
keeps_sound m number steps phase.Ran k w = machine_sound m number steps k
keeps_sound m number steps phase.Broken k w = absurd w
