use Rattle.std.proofs.Common.{◌≡◌, inl, inr, sym, subst}
use Rattle.memory_folder.specs.declared.memory.MemoryFolder.{MemoryFolder}
use Rattle.memory_folder.specs.Memory.{past_of}
use Rattle.account_model.specs.PlanWords.{command_words}
use Rattle.account_model.proofs.AsksLaws.{request_or_fault}
use Rattle.rehearsal.specs.Alone.{IsLawful}
use Rattle.rehearsal.proofs.AloneLemmas.{faulty-undecided, ran-lawful, ran-step, unsupplied-undecided}
use Rattle.rehearsal.proofs.alone.run_alone.Goals as goal

pub returns-clause-lawful : goal.returns-clause-lawful
returns-clause-lawful g c =
    let stays : c.run_suite.new.folder ≡ c.args.folder.now →
    IsLawful (past_of c.run_suite.new.folder) = λ same.
    subst (λ (folder : MemoryFolder). IsLawful (past_of folder)) (sym same) c.requires in
    elim (request_or_fault c.args.words.now) [
      | inr found ↦ stays (c.run_suite.ensures.syntax found.0 found.1).0
      | inl asked ↦ elim (c.run_suite.ensures.ran asked.0 asked.1) [
        | inl early ↦ stays early.0
        | inr ran ↦ ran-lawful _ _ _ _ _ _ _ _ _ _ ran.3 c.requires
      ]
    ]

pub returns-clause-asks : goal.returns-clause-asks
returns-clause-asks g c = λ decided. elim (request_or_fault c.args.words.now) [
  | inl asked ↦ asked
  | inr found ↦ absurd (faulty-undecided _ (command_words c.args.words.now) found.0 _ _ _
      (c.run_suite.ensures.syntax found.0 found.1).3 decided)
]

pub returns-clause-step : goal.returns-clause-step
returns-clause-step g c = λ request asks decided. elim (c.run_suite.ensures.ran request asks) [
  | inl early ↦ absurd (unsupplied-undecided _ _ _ _ _ _ early.1 decided)
  | inr ran ↦ (
    ran.0,
    ran.1,
    ran.2,
    ran-step _ _ _ _ _ _ _ _ _ _ ran.3 c.requires asks decided,
  )
]
