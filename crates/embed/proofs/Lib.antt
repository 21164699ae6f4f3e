pub mod Embeds
