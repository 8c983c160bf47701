-- What was read of a source, piece by piece.
--     Consumes-none, Consumes-then     nothing was read; one piece after the other
--     Consumes-end                     nothing more was
--     Keeps-consumes                   what is left stayed as it was
--     left_of                          what is left, where it is told
--     told_whole                       what was read with what is left is what was told
--     told_end                         where nothing is left, what was read is what was told
--     told_none                        what is told and was not read
use Rattle.std.proofs.Common.{◌≡◌, ℕ, List, [], ◌++◌, None, Some, refl, sym, ap, subst, ◌∙◌, append_assoc, append-nil}
use Rattle.std.specs.Prelude.{IfSome}
use Rattle.std.specs.declared.option.Option.{Option}
use Rattle.std.specs.Io.KnownBytes.{Consumes, IsAtEnd, Keeps}

pub Consumes-none : (s : Option (List ℕ)) → Consumes s s []
Consumes-none None = tt
Consumes-none (Some xs) = refl

pub Consumes-then : (s l l' : Option (List ℕ)) (bs cs : List ℕ) → Consumes s l bs → Consumes l l' cs → Consumes s l' (bs ++ cs)
Consumes-then None l l' bs cs p q = tt
Consumes-then (Some xs) None l' bs cs p q = absurd p
Consumes-then (Some xs) (Some ys) None bs cs p q = absurd q
Consumes-then (Some xs) (Some ys) (Some zs) bs cs p q = p ∙ ap (λ l. bs ++ l) q ∙ sym (append_assoc bs cs zs)

pub Consumes-end : (s l l' : Option (List ℕ)) (bytes : List ℕ) → Consumes s l bytes → Consumes l l' [] → Consumes s l' bytes
Consumes-end s l l' bytes on read = subst (Consumes s l') (append-nil bytes) (Consumes-then s l l' bytes [] on read)

pub Keeps-consumes : (s l l' : Option (List ℕ)) (bs : List ℕ) → Consumes s l bs → Keeps l l' → Consumes s l' bs
Keeps-consumes None l l' bs p q = tt
Keeps-consumes (Some xs) None l' bs p q = absurd p
Keeps-consumes (Some xs) (Some ys) None bs p q = absurd q
Keeps-consumes (Some xs) (Some ys) (Some zs) bs p q = p ∙ ap (λ l. bs ++ l) (sym q)

abbrev pub left_of : Option (List ℕ) → List ℕ
left_of None = []
left_of (Some rest) = rest

pub told_whole : (s l : Option (List ℕ)) (bs : List ℕ) → Consumes s l bs → IfSome s (λ told. bs ++ left_of l ≡ told)
told_whole None l bs read = tt
told_whole (Some xs) None bs read = absurd read
told_whole (Some xs) (Some ys) bs read = sym read

pub told_end : (s l : Option (List ℕ)) (bs : List ℕ) → Consumes s l bs → IsAtEnd l → IfSome s (λ told. bs ≡ told)
told_end None l bs read end = tt
told_end (Some xs) None bs read end = absurd read
told_end (Some xs) (Some ys) bs read end = sym (read ∙ ap (λ l. bs ++ l) end ∙ append-nil bs)

pub told_none : (s : Option (List ℕ)) → IfSome s (λ told. left_of s ≡ told)
told_none None = tt
told_none (Some xs) = refl
