-- A disk that moves to another moment, and what this states of a call.
use Rattle.std.proofs.Common.{◌≤◌, ℕ, Bool, true, false, List, [], ◌∷◌, ◌++◌, length, take, refl, sym, ap, inl, inr, arith, if◌then◌else◌}
use Rattle.std.proofs.Common.{append-nil, length-append, length-take}
use Rattle.std.proofs.lemmas.List.{take_all}
use Rattle.std.proofs.lemmas.List.Elements.{All-nil, All-cons}
use Rattle.issuer_base.specs.Stores.{Moment, Disk, Passes, HasSafe, WhileAppended, WhileCut, WhileKept}
use Rattle.issuer_base.specs.Stores.{AppendsToBytes, AppendsToDisk, CutsDisk, KeepsDisk, SyncsDisk}
use Rattle.issuer_base.proofs.Moments.{Passes-no_call}
use Rattle.memory_edge.specs.KeptDisk.{all_safe, appended, cut_to, goes_to}

-- the disk goes on to a moment that has P
pub goes_to-passes : (P : Moment → Type 0) (disk : Disk) (moment : Moment) → P moment → Passes P disk (goes_to disk moment)
goes_to-passes P disk moment last =
    record { goes_on = record { added = moment ∷ []; grown = refl }; each = All-cons P moment [] last (All-nil P); last = last }

module _ (disk : Disk) (within : disk.now.safe ≤ length disk.now.bytes) where
  same : HasSafe disk.now.bytes disk.now.safe disk.now
  same = record { holds = refl; at_least = omega arith; within = within }

  -- the disk stays as it was
  pub keeps : KeepsDisk disk disk
  keeps = Passes-no_call (WhileKept disk.now) disk same

  -- an append that takes nothing
  pub appends_nothing : (piece : List ℕ) → AppendsToDisk piece true disk disk
  appends_nothing piece = record {
    passes = Passes-no_call (WhileAppended piece disk.now) disk (
      0,
      record {
        holds = sym (append-nil disk.now.bytes);
        at_least = omega arith;
        within = simp length-append (omega arith);
      },
    );
    done = λ failed. cc;
  }

  -- an append that takes a front of the piece where it fails, and else all of it
  pub appends : (piece : List ℕ) (front : ℕ) (failed : Bool)
      → AppendsToDisk piece failed disk (goes_to disk (appended (if failed then take front piece else piece) disk.now))
  appends piece front true = record {
    passes = goes_to-passes (WhileAppended piece disk.now) disk (appended (take front piece) disk.now) (
      front,
      record {
        holds = refl;
        at_least = omega arith;
        within = simp length-append (omega arith);
      },
    );
    done = λ failed. cc;
  }
  appends piece front false = record {
    passes = goes_to-passes (WhileAppended piece disk.now) disk (appended piece disk.now) (
      length piece,
      record {
        holds = ap (λ l. disk.now.bytes ++ l) (sym (take_all (length piece) piece (omega arith)));
        at_least = omega arith;
        within = simp length-append (omega arith);
      },
    );
    done = λ failed. refl;
  }

  -- a cut that changes nothing
  pub cuts_nothing : (len : ℕ) → CutsDisk len true disk disk
  cuts_nothing len = record { passes = Passes-no_call (WhileCut len disk.now) disk (inl same); done = λ failed. cc }

  -- a cut
  pub cuts : (len : ℕ) → len ≤ length disk.now.bytes → CutsDisk len false disk (goes_to disk (cut_to len disk.now))
  cuts len short = record {
    passes = goes_to-passes (WhileCut len disk.now) disk (cut_to len disk.now) (inr (record {
      holds = refl;
      at_least = omega arith;
      within = let long = length-take len disk.now.bytes in omega arith;
    }));
    done = λ failed. refl;
  }

  -- a sync that changes nothing
  pub syncs_nothing : SyncsDisk true disk disk
  syncs_nothing = record { passes = keeps; done = λ failed. cc }

  -- a sync
  pub syncs : SyncsDisk false disk (goes_to disk (all_safe disk.now.bytes))
  syncs = record {
    passes = goes_to-passes (WhileKept disk.now) disk (all_safe disk.now.bytes) (record {
      holds = refl;
      at_least = within;
      within = omega arith;
    });
    done = λ failed. refl;
  }

-- the bytes after an append that takes a front of the piece where it fails, and else all of it
pub appends_bytes : (bytes piece : List ℕ) (front : ℕ) (failed : Bool)
    → AppendsToBytes piece failed bytes (bytes ++ (if failed then take front piece else piece))
appends_bytes bytes piece front true = (front, refl)
appends_bytes bytes piece front false = refl
