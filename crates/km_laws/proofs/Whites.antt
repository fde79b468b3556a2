pub use Rattle.km_model.proofs.Whites.{white_by, white_in, white_is}
